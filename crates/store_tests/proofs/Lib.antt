pub mod ThreeDeliveries
pub mod TwoArrivals
