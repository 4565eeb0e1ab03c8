pub mod GivenBack
pub mod Rising
pub mod Sums
pub mod Lower
pub mod LowNumbers
pub mod Lowest
pub mod SetAside
pub mod Reached
