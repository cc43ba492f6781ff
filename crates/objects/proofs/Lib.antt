mod Arrays
mod Charging
mod Counting
mod Fresh
mod Lacking
mod Storing
