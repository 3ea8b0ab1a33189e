pub mod HeldLemmas
pub mod ChangeLemmas
pub mod RoomLemmas
pub mod ReplaceLemmas
pub mod SlotLemmas
pub mod EndLemmas
