pub mod GameOf
pub use Rattle.lab_keys.specs.Keys
pub use Rattle.refusals.specs.Refusing
