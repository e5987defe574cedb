mod Asked
mod Refused
mod Carried
