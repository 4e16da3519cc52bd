mod Among
mod Answering
mod MadeAgain
mod Twins
mod Looking
mod LooksAlike
mod RunRoom
