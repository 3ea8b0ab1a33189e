-- What several reads and writes in a row do to bytes that are told.
use Rattle.std.proofs.Common.{ℕ, List, [], ◌++◌, Option, None, Some, refl, sym, ◌∙◌, ap, append_assoc}
use Rattle.std.proofs.lemmas.List.{append-nil}
use Rattle.std.specs.Io.KnownBytes.{Appends, Consumes, Keeps}

-- what two writes append, one after the other
pub Appends-append : (a b c : Option (List ℕ)) (xs ys : List ℕ) → Appends a b xs → Appends b c ys → Appends a c (xs ++ ys)
Appends-append None b c xs ys first second = tt
Appends-append (Some x) None c xs ys first second = absurd first
Appends-append (Some x) (Some y) None xs ys first second = second
Appends-append (Some x) (Some y) (Some z) xs ys first second = second ∙ ap (λ (l : List ℕ). l ++ ys) first ∙ append_assoc x xs ys

-- at first nothing is appended
pub Appends-nil : (a : Option (List ℕ)) → Appends a a []
Appends-nil None = tt
Appends-nil (Some x) = sym (append-nil x)

-- what two reads consume, one after the other
pub Consumes-append : (a b c : Option (List ℕ)) (xs ys : List ℕ) → Consumes a b xs → Consumes b c ys → Consumes a c (xs ++ ys)
Consumes-append None b c xs ys first second = tt
Consumes-append (Some x) None c xs ys first second = absurd first
Consumes-append (Some x) (Some y) None xs ys first second = second
Consumes-append (Some x) (Some y) (Some z) xs ys first second = first ∙ ap (λ (l : List ℕ). xs ++ l) second ∙ sym (append_assoc xs ys z)

-- nothing is consumed where the bytes stay
pub Consumes-Keeps : (a b c : Option (List ℕ)) (xs : List ℕ) → Consumes a b xs → Keeps b c → Consumes a c xs
Consumes-Keeps None b c xs first same = tt
Consumes-Keeps (Some x) None c xs first same = absurd first
Consumes-Keeps (Some x) (Some y) None xs first same = same
Consumes-Keeps (Some x) (Some y) (Some z) xs first same = first ∙ ap (λ (l : List ℕ). xs ++ l) (sym same)

-- at first nothing is consumed
pub Consumes-nil : (a : Option (List ℕ)) → Consumes a a []
Consumes-nil None = tt
Consumes-nil (Some x) = refl
