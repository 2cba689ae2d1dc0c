mod Operations
mod PowerLemmas
pub mod RatioLemmas
pub mod SpanLemmas
