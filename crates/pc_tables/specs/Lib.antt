pub mod Table
pub mod Order
pub mod Fronts
pub mod Laws
