pub mod Fitting
pub mod Texts
mod Values
mod HubValues
pub mod Asked
