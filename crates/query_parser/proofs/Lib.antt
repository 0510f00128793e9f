mod Searching
mod Giving
mod Levels
mod Typed
mod Asked
mod OneAnswer
mod Refused
