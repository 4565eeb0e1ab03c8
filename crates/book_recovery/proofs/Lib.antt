pub mod Codec
pub mod Prefaces
pub mod Noting
pub mod Bodies
pub mod Deployed
pub mod Files
pub mod Opened
pub mod GoingOn
