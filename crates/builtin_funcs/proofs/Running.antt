-- The numbers so far, and then those that are left.
use Rattle.std.proofs.Common.{◌≡◌, ℕ, ◌+◌, ◌≤◌, Bool, List, length, [], drop, slice_get, Option, None, Some, ℤ, pos, ◌+ℤ◌, fold, unwrap_or, refl, sym, ◌∙◌, ap}
use Rattle.std.proofs.Common.{arith}
use Rattle.std.proofs.lemmas.Int.{ints}
use Rattle.std.specs.List.{cons_option, filter_map}
use Rattle.ad_value.specs.Plain.{Plain}
use Rattle.builtin_funcs.specs.Aggregates.{amount_of, chosen_of, with_number}
use Rattle.builtin_funcs.proofs.ListLemmas.{at_end, drop_at}

-- the numbers that are left at a place
abbrev pub amounts_from : Bool → ℕ → List Plain → List ℤ
amounts_from decimals i ps = filter_map (amount_of decimals) (drop i ps)

amounts_at : (decimals : Bool) (ps : List Plain) (i : ℕ) (p : Plain) → slice_get ps i ≡ Some p
    → amounts_from decimals i ps ≡ cons_option (amount_of decimals p) (amounts_from decimals (i + 1) ps)
amounts_at decimals ps i p here = ap (filter_map (amount_of decimals)) (drop_at ps i p here)

-- ---- the least and the greatest

-- the number that is chosen among one so far, if there is one, and those that are left
abbrev pub chosen_with : (ℤ → ℤ → ℤ) → Option ℤ → List ℤ → Option ℤ
chosen_with choose None ns = chosen_of choose ns
chosen_with choose (Some m) ns = Some (fold choose m ns)

chosen_step : (choose : ℤ → ℤ → ℤ) (so_far number : Option ℤ) (ns : List ℤ)
    → chosen_with choose so_far (cons_option number ns) ≡ chosen_with choose (with_number choose so_far number) ns
chosen_step choose None None ns = refl
chosen_step choose None (Some n) ns = refl
chosen_step choose (Some m) None ns = refl
chosen_step choose (Some m) (Some n) ns = refl

pub chosen_more : (decimals : Bool) (choose : ℤ → ℤ → ℤ) (ps : List Plain) (i : ℕ) (p : Plain) (so_far chosen : Option ℤ) → slice_get ps i ≡ Some p
    → chosen_with choose so_far (amounts_from decimals i ps) ≡ chosen
    → chosen_with choose (with_number choose so_far (amount_of decimals p)) (amounts_from decimals (i + 1) ps) ≡ chosen
chosen_more decimals choose ps i p so_far chosen here left =
    sym (chosen_step choose so_far (amount_of decimals p) (amounts_from decimals (i + 1) ps))
    ∙ sym (ap (chosen_with choose so_far) (amounts_at decimals ps i p here)) ∙ left

-- at the end the number so far is the number
pub chosen_whole : (decimals : Bool) (choose : ℤ → ℤ → ℤ) (ps : List Plain) (i n : ℕ) (so_far chosen : Option ℤ) → n ≡ length ps → n ≤ i
    → chosen_with choose so_far (amounts_from decimals i ps) ≡ chosen → so_far ≡ chosen
chosen_whole decimals choose ps i n so_far chosen count past left =
    alone so_far ∙ sym (at_end (λ l. chosen_with choose so_far (filter_map (amount_of decimals) l)) ps i n count past) ∙ left
  where
    alone : (o : Option ℤ) → o ≡ chosen_with choose o []
    alone None = refl
    alone (Some m) = refl

-- ---- the sum

sum_step : (sum : ℤ) (number : Option ℤ) (ns : List ℤ) → fold ◌+ℤ◌ sum (cons_option number ns) ≡ fold ◌+ℤ◌ (sum +ℤ unwrap_or number (pos 0)) ns
sum_step sum None ns = ap (λ s. fold ◌+ℤ◌ s ns) (omega (arith, ints))
sum_step sum (Some n) ns = refl

pub sum_more : (decimals : Bool) (ps : List Plain) (i : ℕ) (p : Plain) (sum next total : ℤ) → slice_get ps i ≡ Some p
    → next ≡ sum +ℤ unwrap_or (amount_of decimals p) (pos 0)
    → fold ◌+ℤ◌ sum (amounts_from decimals i ps) ≡ total → fold ◌+ℤ◌ next (amounts_from decimals (i + 1) ps) ≡ total
sum_more decimals ps i p sum next total here is left =
    ap (λ s. fold ◌+ℤ◌ s (amounts_from decimals (i + 1) ps)) is
    ∙ sym (sum_step sum (amount_of decimals p) (amounts_from decimals (i + 1) ps))
    ∙ sym (ap (fold ◌+ℤ◌ sum) (amounts_at decimals ps i p here))
    ∙ left

-- at the end the sum so far is the sum
pub sum_whole : (decimals : Bool) (ps : List Plain) (i n : ℕ) (sum total : ℤ) → n ≡ length ps → n ≤ i → fold ◌+ℤ◌ sum (amounts_from decimals i ps) ≡ total
    → sum ≡ total
sum_whole decimals ps i n sum total count past left = sym (at_end (λ l. fold ◌+ℤ◌ sum (filter_map (amount_of decimals) l)) ps i n count past) ∙ left
