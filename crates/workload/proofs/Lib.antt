pub mod WorkloadLemmas
