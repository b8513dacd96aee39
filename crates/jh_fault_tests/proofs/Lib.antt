mod StampLemmas
mod FaultLemmas
