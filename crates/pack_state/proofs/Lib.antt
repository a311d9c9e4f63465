mod Loops
mod Unpacked
mod Fronts
mod Puts
