-- The operators that are strict are all but two, and equality of texts is a comparison that answers Equal.
use Rattle.std.proofs.Common.{ℕ, ◌≡◌, List, refl, sym, ap, ◌∙◌}
use Rattle.std.proofs.lemmas.Map.Text.{is_eq-slice_cmp}
use Rattle.std.specs.Ordering.{is_eq, is_ne}
use Rattle.std.specs.Prelude.{not}
use Rattle.std.specs.declared.cmp.Ordering.{Ordering}
use Rattle.std.specs.declared.cmp.Ordering.TheVariants.{Less, Equal, Greater}
use Rattle.std.specs.Str.{bytes_eq}
use Rattle.pool_text.specs.declared.language.BinOp.{BinOp}
use Rattle.pool_text.specs.Folding.{folded, text_order}
use Rattle.ad_value.specs.Plain.{Plain}
use Rattle.ad_value.specs.Operators.{binary_value, strict, strict_row}

pub binary_value-strict : (op : BinOp) (a b : Plain) → (op ≡ BinOp.Same → ⊥) → (op ≡ BinOp.NotSame → ⊥) → strict (strict_row op) a b ≡ binary_value op a b
binary_value-strict BinOp.Same a b no_same no_not_same = absurd (no_same refl)
binary_value-strict BinOp.NotSame a b no_same no_not_same = absurd (no_not_same refl)
binary_value-strict op a b no_same no_not_same = refl

pub equal_in_order : (a b : List ℕ) → bytes_eq (folded a) (folded b) ≡ is_eq (text_order a b)
equal_in_order a b = sym (is_eq-slice_cmp (folded a) (folded b))

pub apart_in_order : (a b : List ℕ) → not (bytes_eq (folded a) (folded b)) ≡ is_ne (text_order a b)
apart_in_order a b = ap not (equal_in_order a b) ∙ by (text_order a b)
  where
    by : (o : Ordering) → not (is_eq o) ≡ is_ne o
    by Less = refl
    by Equal = refl
    by Greater = refl
