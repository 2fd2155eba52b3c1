pub mod Ascend
pub mod Alike
pub mod Marks
pub mod Recovered
pub mod Placing
pub mod Memo
pub mod Views
