mod CountLemmas
mod FailingLemmas
mod JudgeLemmas
mod LawLemmas
mod ReportLemmas
