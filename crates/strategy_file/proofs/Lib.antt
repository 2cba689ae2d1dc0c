pub mod CsvRead
pub mod CsvRows
pub mod TomlRows
