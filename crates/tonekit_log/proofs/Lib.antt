mod PartsOf
mod LogCases
mod Powers
mod LogRange
pub mod Log2Range
mod Floor
mod Turns
mod ExpCases
mod ExpRange
pub mod Laws
