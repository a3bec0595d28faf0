pub mod ColumnLaws
pub mod SideLaws
pub mod Writing
