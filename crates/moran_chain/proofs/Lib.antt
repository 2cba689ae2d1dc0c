mod ChainLemmas
mod Chances
mod Differences
mod Fitting
mod Process
mod Scoring
mod Solutions
mod Steps
