mod OneMeasure
mod FewNodes
mod OneMark
mod Images
mod Marks
mod Beside
mod LeastPairings
mod Matched
mod Details
mod Telling
pub mod Found
mod OneAnswer
mod Reported
