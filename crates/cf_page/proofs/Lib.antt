mod Cuts
mod Playing
