-- Laws of the procedure's promise, which the levels above cite too; the proof of the function is in the folder of its name.
pub mod RunLaws
pub mod RanLaws
