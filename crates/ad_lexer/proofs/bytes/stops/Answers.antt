use Rattle.std.proofs.Common.{ℕ, leb, cond, bit_and, bit_or, refl}
use Rattle.std.proofs.lemmas.Simd.{zip2_splat}
use Rattle.ad_lexer.specs.Reading.{is_outside}
use Rattle.ad_lexer.specs.declared.bytes.Class.TheVariants as class
use Rattle.ad_lexer.proofs.LaneLemmas.{joined, splat_is, masked}
use Rattle.ad_lexer.proofs.bytes.stops.Goals as goal

pub returns-in-Space : goal.returns-in-Space
returns-in-Space c =
    let v = c.args.bytes in
    let long = c.fits-bytes.0 in
    rw c.in-Space.is (masked _ (is_outside class.Space) v _ long c.fits-bytes.1
    (joined bit_and _ _ v (joined bit_and _ _ v (joined bit_and _ _ v
    (joined bit_and _ _ v (zip2_splat {Y = ℕ} _ v 16 32 long) (zip2_splat {Y = ℕ} _ v 16 9 long)) (zip2_splat {Y = ℕ} _ v 16 10 long))
    (zip2_splat {Y = ℕ} _ v 16 13 long)) (zip2_splat {Y = ℕ} _ v 16 12 long)) refl)

pub returns-in-Word : goal.returns-in-Word
returns-in-Word c =
    let v = c.args.bytes in
    let long = c.fits-bytes.0 in
    rw c.in-Word.is (masked _ (is_outside class.Word) v _ long c.fits-bytes.1
    (joined bit_and _ _ v (joined bit_and _ _ v
    (joined (λ a b. cond (leb a b) 255 0) _ _ v (splat_is v 16 26 long) (joined _ _ _ v (zip2_splat {Y = ℕ} _ v 16 32 long) (splat_is v 16 97 long)))
    (joined (λ a b. cond (leb a b) 255 0) _ _ v (splat_is v 16 10 long) (zip2_splat {Y = ℕ} _ v 16 48 long)))
    (zip2_splat {Y = ℕ} _ v 16 95 long)) refl)

pub returns-in-Decimal : goal.returns-in-Decimal
returns-in-Decimal c =
    let v = c.args.bytes in
    let long = c.fits-bytes.0 in
    rw c.in-Decimal.is (masked _ (is_outside class.Decimal) v _ long c.fits-bytes.1
    (joined (λ a b. cond (leb a b) 255 0) _ _ v (splat_is v 16 10 long) (zip2_splat {Y = ℕ} _ v 16 48 long)) refl)

pub returns-in-Hexadecimal : goal.returns-in-Hexadecimal
returns-in-Hexadecimal c =
    let v = c.args.bytes in
    let long = c.fits-bytes.0 in
    rw c.in-Hexadecimal.is (masked _ (is_outside class.Hexadecimal) v _ long c.fits-bytes.1
    (joined bit_and _ _ v
    (joined (λ a b. cond (leb a b) 255 0) _ _ v (splat_is v 16 6 long) (joined _ _ _ v (zip2_splat {Y = ℕ} _ v 16 32 long) (splat_is v 16 97 long)))
    (joined (λ a b. cond (leb a b) 255 0) _ _ v (splat_is v 16 10 long) (zip2_splat {Y = ℕ} _ v 16 48 long))) refl)

pub returns-in-Line : goal.returns-in-Line
returns-in-Line c =
    let v = c.args.bytes in
    let long = c.fits-bytes.0 in
    rw c.in-Line.is (masked _ (is_outside class.Line) v _ long c.fits-bytes.1 (zip2_splat {Y = ℕ} _ v 16 10 long) refl)

pub returns-in-Plain : goal.returns-in-Plain
returns-in-Plain c =
    let v = c.args.bytes in
    let long = c.fits-bytes.0 in
    rw c.in-Plain.is (masked _ (is_outside class.Plain) v _ long c.fits-bytes.1
    (joined bit_or _ _ v (joined bit_or _ _ v (joined bit_or _ _ v (joined bit_or _ _ v (zip2_splat {Y = ℕ} _ v 16 34 long) (zip2_splat {Y = ℕ} _ v 16 39 long))
    (zip2_splat {Y = ℕ} _ v 16 92 long)) (zip2_splat {Y = ℕ} _ v 16 10 long)) (zip2_splat {Y = ℕ} _ v 16 0 long)) refl)
