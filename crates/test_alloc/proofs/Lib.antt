pub mod ThroughBudget
