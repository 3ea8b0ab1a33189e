-- The texts of a list's elements, one after another.
use Rattle.std.proofs.Common.{◌≡◌, ℕ, zero, suc, ◌+◌, List, [], ◌∷◌, ◌++◌, codes, drop, slice_get, Some, sym, ◌∙◌, ap, append_assoc}
use Rattle.std.proofs.Common.{add-one}
use Rattle.ad_value.specs.Plain.{Plain, plains_of}
use Rattle.ad_printer.specs.Values.{value_text, texts_behind}

drop-at : (ps : List Plain) (i : ℕ) (p : Plain) → slice_get ps i ≡ Some p → drop i ps ≡ p ∷ drop (suc i) ps
drop-at [] i p e = absurd (cc)
drop-at (q ∷ ps) zero p e = let same : q ≡ p = cc in ap (λ z. z ∷ ps) same
drop-at (q ∷ ps) (suc i) p e = drop-at ps i p e

pub element_step : (ps : List Plain) (i : ℕ) (p : Plain) (out middle new start : List ℕ) → slice_get ps i ≡ Some p → middle ≡ out ++ codes ", "
    → new ≡ middle ++ value_text p
    → out ++ texts_behind (plains_of (drop i ps)) ≡ start → new ++ texts_behind (plains_of (drop (i + 1) ps)) ≡ start
element_step ps i p out middle new start at is value left =
    let rest : List ℕ = texts_behind (plains_of (drop (suc i) ps)) in
    ap (λ (n : ℕ). new ++ texts_behind (plains_of (drop n ps))) (add-one i)
    ∙ ap (λ (t : List ℕ). t ++ rest) (value ∙ ap (λ (t : List ℕ). t ++ value_text p) is)
    ∙ append_assoc (out ++ codes ", ") (value_text p) rest ∙ append_assoc out (codes ", ") (value_text p ++ rest)
    ∙ ap (λ (l : List Plain). out ++ texts_behind (plains_of l)) (sym (drop-at ps i p at)) ∙ left
