pub mod Jobs
pub mod JobsOf
pub mod Tournament
pub use Rattle.toml.specs.Data
pub use Rattle.history_model.specs.Name
