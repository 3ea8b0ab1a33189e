mod EntryLemmas
mod KeyLemmas
mod SitsLemmas
