pub mod MachineSheet
pub mod Rows
pub mod RowsLaw
pub mod RowsRead
pub use Rattle.refusals.specs.Refusing
