-- The answer of the negotiator as rows of a reply: the resources by their names.
use Rattle.std.specs.Prelude.{ℕ, List, map, All, Contains}
use Rattle.ad_store.specs.Stock.{Stock}
use Rattle.negotiator.specs.declared.answers.Offered.{Offered}
use Rattle.negotiator.specs.declared.answers.Spin.{Spin}
use Rattle.negotiator.specs.declared.answers.Turn.{Turn}
use Rattle.pool_replies.specs.declared.rows.OfferRow.{OfferRow}
use Rattle.pool_replies.specs.declared.rows.SpinRow.{SpinRow}
use Rattle.pool_replies.specs.declared.rows.TurnRow.{TurnRow}
use Rattle.pool_books.specs.Books.{name_in}

abbrev pub offer_row : Stock → Offered → OfferRow
offer_row stock offered = record { job = offered.job; names = map (name_in stock) offered.slots }

abbrev pub turn_row : Stock → Turn → TurnRow
turn_row stock turn = record { user = turn.user; slice = turn.slice; offers = map (offer_row stock) turn.offers }

abbrev pub spin_row : Stock → Spin → SpinRow
spin_row stock spin = record { free = spin.free; turns = map (turn_row stock) spin.turns }

-- ---- what is offered is in the store

abbrev pub IsOfferHeld : List ℕ → Offered → Type 0
IsOfferHeld slots offered = All (Contains slots) offered.slots

abbrev pub IsTurnHeld : List ℕ → Turn → Type 0
IsTurnHeld slots turn = All (IsOfferHeld slots) turn.offers

abbrev pub IsSpinHeld : List ℕ → Spin → Type 0
IsSpinHeld slots spin = All (IsTurnHeld slots) spin.turns
