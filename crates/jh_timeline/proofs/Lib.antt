mod CallLemmas
mod HistoryOrderLemmas
mod DrawnLemmas
mod LaneLemmas
mod CallOrderLemmas
mod LaneApartLemmas
mod EndLemmas
