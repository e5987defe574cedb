mod Spelled
mod Walks
mod Written
