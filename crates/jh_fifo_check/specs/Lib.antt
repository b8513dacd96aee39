pub mod FifoHistories
pub mod FifoFindings
pub mod FifoLines
