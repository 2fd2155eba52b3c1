pub mod Sheetable
pub mod Marks
pub mod Kinds
pub mod Parts
