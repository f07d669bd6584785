pub mod Chosen
pub mod Safe
pub mod Greatest
pub mod Strikes
