mod MoreTotals
mod Numbered
mod OneSummary
mod Spread
