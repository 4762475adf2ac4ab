pub mod Fronts
pub mod Drew
pub mod Findings
pub mod Long
pub mod LongAudit
