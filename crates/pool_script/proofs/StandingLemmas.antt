-- What is held stands for, after a piece, the end of the input, and one that is taken.
use Rattle.std.proofs.Common.{◌≡◌, ℕ, Bool, true, false, List, [], ◌++◌, sym, ◌∙◌, ap, arith, append_assoc, length-append}
use Rattle.std.proofs.lemmas.List.{append-nil, append_cancel_left, drop-append-le}
use Rattle.pool_script.specs.Standing.{Held, IsFollowed, IsResumed, StandsFor}

followed_more : {A : Type 0} (all more waiting : List A) (n : ℕ) → IsFollowed all n waiting → IsFollowed (all ++ more) n (waiting ++ more)
followed_more {A} all more waiting n follows = record {
  taken = omega (arith, length-append all more, follows.taken);
  waits = drop-append-le n all more follows.taken ∙ ap (λ (w : List A). w ++ more) follows.waits;
}

-- `given` says what bytes give, as the whole input or not
module _ {A : Type 0} (given : Bool → List ℕ → List A) where
  -- where no bytes give nothing, who has read nothing stands for no bytes
  pub stands_new : given false [] ≡ [] → StandsFor given (record { waiting = []; rest = []; over = false }) [] 0
  stands_new none = record {
    follows = record { taken = omega arith; waits = none };
    resumes =
        λ is. record {
          ended =
              λ more. sym (ap (λ (all : List A). all ++ given false more) none);
          whole = λ more. sym (ap (λ (all : List A). all ++ given true more) none);
        };
  }

  -- what follows the bytes gives what it gives behind what is kept
  abbrev pub Promises : Held A → List ℕ → Held A → Type 0
  Promises old piece new =
      (over : Bool) (more : List ℕ) → new.waiting ++ given over (new.rest ++ more) ≡ old.waiting ++ given over (old.rest ++ (piece ++ more))

  -- what a piece gives
  pub fed_waiting : (old new : Held A) (piece : List ℕ) → Promises old piece new → given false new.rest ≡ []
      → new.waiting ≡ old.waiting ++ given false (old.rest ++ piece)
  fed_waiting old new piece promise none =
      let none_more : given false (new.rest ++ []) ≡ [] = ap (λ (bytes : List ℕ). given false bytes) (append-nil new.rest) ∙ none in
      sym (append-nil new.waiting) ∙ ap (λ (made : List A). new.waiting ++ made) (sym none_more) ∙ promise false []
      ∙ ap (λ (bytes : List ℕ). old.waiting ++ given false (old.rest ++ bytes)) (append-nil piece)

  fed_more : (old new : Held A) (piece : List ℕ) → Promises old piece new → new.waiting ≡ old.waiting ++ given false (old.rest ++ piece)
      → (over : Bool) (more : List ℕ) → given over (old.rest ++ (piece ++ more)) ≡ given false (old.rest ++ piece) ++ given over (new.rest ++ more)
  fed_more old new piece promise waiting over more =
      let q = given false (old.rest ++ piece) in
      append_cancel_left old.waiting (given over (old.rest ++ (piece ++ more))) (q ++ given over (new.rest ++ more))
      (sym (promise over more) ∙ ap (λ (w : List A). w ++ given over (new.rest ++ more)) waiting ∙ append_assoc old.waiting q (given over (new.rest ++ more)))

  resumed_more : (bytes piece : List ℕ) (rest new_rest : List ℕ) → IsResumed given bytes rest
      → ((over : Bool) (more : List ℕ) → given over (rest ++ (piece ++ more)) ≡ given false (rest ++ piece) ++ given over (new_rest ++ more))
      → IsResumed given (bytes ++ piece) new_rest
  resumed_more bytes piece rest new_rest resumes fed = record {
    ended = λ more.
        ap (λ (b : List ℕ). given false b) (append_assoc bytes piece more) ∙ resumes.ended (piece ++ more)
        ∙ ap (λ (made : List A). given false bytes ++ made) (fed false more)
        ∙ sym (append_assoc (given false bytes) (given false (rest ++ piece)) (given false (new_rest ++ more)))
        ∙ ap (λ (made : List A). made ++ given false (new_rest ++ more)) (sym (resumes.ended piece));
    whole = λ more.
        ap (λ (b : List ℕ). given true b) (append_assoc bytes piece more) ∙ resumes.whole (piece ++ more)
        ∙ ap (λ (made : List A). given false bytes ++ made) (fed true more)
        ∙ sym (append_assoc (given false bytes) (given false (rest ++ piece)) (given true (new_rest ++ more)))
        ∙ ap (λ (made : List A). made ++ given true (new_rest ++ more)) (sym (resumes.ended piece));
  }

  -- what read a piece stands for the bytes with the piece behind them
  pub stands_fed : (old new : Held A) (piece bytes : List ℕ) (n : ℕ) → old.over ≡ false → new.over ≡ false → Promises old piece new → given false new.rest ≡ []
      → StandsFor given old bytes n → StandsFor given new (bytes ++ piece) n
  stands_fed old new piece bytes n open_old open_new promise none stands =
      let waiting = fed_waiting old new piece promise none in
      let resumes = stands.resumes open_old in
      let before : IsFollowed (given false bytes) n old.waiting = rw open_old at stands.follows in
      let all : IsFollowed (given false bytes ++ given false (old.rest ++ piece)) n new.waiting =
      rw waiting (followed_more (given false bytes) (given false (old.rest ++ piece)) old.waiting n before) in
      record {
        follows = rw (open_new, resumes.ended piece) all;
        resumes = λ is. resumed_more bytes piece old.rest new.rest resumes (fed_more old new piece promise waiting);
      }

  -- what has read the end of the input stands for the bytes as the whole input
  pub stands_ended : (old new : Held A) (bytes : List ℕ) (n : ℕ) → old.over ≡ false → new.over ≡ true → new.waiting ≡ old.waiting ++ given true old.rest
      → StandsFor given old bytes n → StandsFor given new bytes n
  stands_ended old new bytes n open_old over_new waiting stands =
      let resumes = stands.resumes open_old in
      let before : IsFollowed (given false bytes) n old.waiting = rw open_old at stands.follows in
      let whole : given true bytes ≡ given false bytes ++ given true old.rest =
      ap (λ (b : List ℕ). given true b) (sym (append-nil bytes)) ∙ resumes.whole []
      ∙ ap (λ (b : List ℕ). given false bytes ++ given true b) (append-nil old.rest) in
      record {
        follows = rw (over_new, whole, waiting) (followed_more (given false bytes) (given true old.rest) old.waiting n before);
        resumes = λ is. let no : true ≡ false = sym over_new ∙ is in cc;
      }
