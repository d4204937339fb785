pub mod BackLemmas
pub mod BusLemmas
pub mod ClockLemmas
pub mod CloseLemmas
pub mod ComeLemmas
pub mod DeskLemmas
pub mod EndLemmas
pub mod EndedLemmas
pub mod GatherLemmas
pub mod HelpedLemmas
pub mod JoinLemmas
pub mod LaneLemmas
pub mod LimitLemmas
pub mod RefusedLemmas
pub mod LogLemmas
pub mod MarkLemmas
pub mod NothingLemmas
pub mod OutsideLemmas
pub mod PartLemmas
pub mod Projections
pub mod ReadLemmas
pub mod RunLemmas
pub mod SeatLemmas
pub mod SendLemmas
pub mod StartLemmas
pub mod StepLemmas
pub mod TickLemmas
pub mod TraceLemmas
pub mod WentLemmas
pub mod WorkLemmas
pub mod WorkedLemmas
pub mod WriteLemmas
mod BadLinesExample
mod CutOffExample
mod Examples
mod TimeExample
mod TwoToolsExample
mod WorkersExample
