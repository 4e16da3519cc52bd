mod Arrivals
mod Capacities
mod Limits
mod NextReads
mod Playing
mod Reached
mod Reading
