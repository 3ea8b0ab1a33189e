-- White space and comments at the front of a text.
use Rattle.std.proofs.Common.{◌≡◌, ℕ, suc, ◌+◌, Bool, true, false, cond, eqb, ◌&&◌, List, [], ◌∷◌, ◌++◌, length, take, drop, slice_index, Option, Some, None}
use Rattle.std.proofs.Common.{refl, sym, ◌∙◌, ap, subst, inl, inr, arith, length-append, length-take-le, append_assoc, take-append-drop}
use Rattle.std.proofs.lemmas.Bool.{cases_Bool, and_parts, and_right, or_parts, or_from, not-false, eqb-true}
use Rattle.std.proofs.lemmas.List.Sums.{prefix_len-le-length}
use Rattle.std.specs.List.{prefix_len}
use Rattle.ad_lexer.specs.Blanks.{is_line_byte, begins_comment, has_close, IsLineComment, IsBlockComment}
use Rattle.ad_lexer.specs.Faults.{IsOpenComment}
use Rattle.ad_lexer.specs.declared.fault.LexKind.TheVariants as kinds
use Rattle.ad_lexer.specs.declared.next.Step.{Step}
use Rattle.ad_lexer.specs.declared.next.Step.TheVariants as steps
use Rattle.ad_lexer.specs.declared.token.TokenKind.TheVariants.{Symbol}
use Rattle.ad_lexer.specs.Reading.{comment_len, comment_of, slash}
use Rattle.ad_lexer.specs.Symbols.{is_symbol}
use Rattle.ad_lexer.proofs.Fronts.{BlankAt, TokenAt, Stands, first_bytes}
use Rattle.ad_lexer.proofs.Runs.{run_passes, run_ends, run_exact}

abbrev closes : ℕ → List ℕ → Bool
closes byte bytes = eqb byte 42 && eqb (slice_index bytes 0) 47

-- what follows the bytes before a `*` doesn't change whether one of them begins a `*/`
closes_before : (byte : ℕ) (inner after : List ℕ) → closes byte (inner ++ 42 ∷ after) ≡ closes byte (inner ++ 42 ∷ [])
closes_before byte [] after = refl
closes_before byte (b ∷ inner) after = refl

len_stops : (n byte : ℕ) (bytes : List ℕ) → closes byte bytes ≡ true → comment_len n (byte ∷ bytes) ≡ Some (n + 2)
len_stops n byte bytes is = rw is refl

len_goes : (n byte : ℕ) (bytes : List ℕ) → closes byte bytes ≡ false → comment_len n (byte ∷ bytes) ≡ comment_len (n + 1) bytes
len_goes n byte bytes isnt = rw isnt refl

-- a comment's bytes are read up to its end
comment_exact : (n : ℕ) (inner after : List ℕ) → has_close (inner ++ 42 ∷ []) ≡ false → comment_len n (inner ++ 42 ∷ 47 ∷ after) ≡ Some (n + (length inner + 2))
comment_exact n [] after open_until = let e : n + 2 ≡ n + (0 + 2) = omega arith in ap (λ (m : ℕ). Some m) e
comment_exact n (byte ∷ inner) after open_until =
    let parts = or_parts (closes byte (inner ++ 42 ∷ [])) (has_close (inner ++ 42 ∷ [])) open_until in
    let e : n + 1 + (length inner + 2) ≡ n + (suc (length inner) + 2) = omega arith in
    len_goes n byte (inner ++ 42 ∷ 47 ∷ after) (closes_before byte inner (47 ∷ after) ∙ parts.0) ∙ comment_exact (n + 1) inner after parts.1
    ∙ ap (λ (m : ℕ). Some m) e

pub record Closed (n : ℕ) (text : List ℕ) (end : ℕ) : Type 0 where
  inner : List ℕ
  after : List ℕ
  text_is : text ≡ inner ++ 42 ∷ 47 ∷ after
  open_until : has_close (inner ++ 42 ∷ []) ≡ false
  end_is : end ≡ n + (length inner + 2)

begins_with : (bytes : List ℕ) (byte : ℕ) → slice_index bytes 0 ≡ suc byte → bytes ≡ suc byte ∷ drop 1 bytes
begins_with [] byte is = absurd (omega arith)
begins_with (b ∷ bytes) byte is = ap (λ (x : ℕ). x ∷ bytes) is

closed_here : (n byte : ℕ) (bytes : List ℕ) (end : ℕ) → closes byte bytes ≡ true → Some (n + 2) ≡ Some end → Closed n (byte ∷ bytes) end
closed_here n byte bytes end is at =
    let both = and_parts (eqb byte 42) (eqb (slice_index bytes 0) 47) is in
    record {
      inner = [];
      after = drop 1 bytes;
      text_is =
          ap (λ (x : ℕ). x ∷ bytes) (eqb-true byte 42 both.0) ∙ ap (λ (l : List ℕ). 42 ∷ l) (begins_with bytes 46 (eqb-true (slice_index bytes 0) 47 both.1));
      open_until = refl;
      end_is = let e : n + 2 ≡ end = cc in omega arith;
    }

closed_later : (n byte : ℕ) (bytes : List ℕ) (end : ℕ) → closes byte bytes ≡ false → Closed (n + 1) bytes end → Closed n (byte ∷ bytes) end
closed_later n byte bytes end isnt more = record {
  inner = byte ∷ more.inner;
  after = more.after;
  text_is = ap (λ (l : List ℕ). byte ∷ l) more.text_is;
  open_until =
      or_from (closes byte (more.inner ++ 42 ∷ [])) _ (sym (closes_before byte more.inner (47 ∷ more.after))
      ∙ ap (λ (l : List ℕ). closes byte l) (sym more.text_is) ∙ isnt) more.open_until;
  end_is = omega (arith, more.end_is);
}

comment_closed : (n : ℕ) (text : List ℕ) (end : ℕ) → comment_len n text ≡ Some end → Closed n text end
comment_closed n [] end is = absurd (cc)
comment_closed n (byte ∷ bytes) end is =
    elim (cases_Bool (closes byte bytes)) [
      | inl here ↦ closed_here n byte bytes end here (sym (len_stops n byte bytes here) ∙ is)
      | inr later ↦ closed_later n byte bytes end later (comment_closed (n + 1) bytes end (sym (len_goes n byte bytes later) ∙ is))
    ]

comment_open : (n : ℕ) (text : List ℕ) → has_close text ≡ false → comment_len n text ≡ None
comment_open n [] isnt = refl
comment_open n (byte ∷ bytes) isnt =
    let parts = or_parts (closes byte bytes) (has_close bytes) isnt in
    len_goes n byte bytes parts.0 ∙ comment_open (n + 1) bytes parts.1

comment_never : (n : ℕ) (text : List ℕ) → comment_len n text ≡ None → has_close text ≡ false
comment_never n [] is = refl
comment_never n (byte ∷ bytes) is =
    elim (cases_Bool (closes byte bytes)) [
      | inl here ↦ absurd (cc (sym (len_stops n byte bytes here) ∙ is))
      | inr later ↦ or_from (closes byte bytes) _ later (comment_never (n + 1) bytes (sym (len_goes n byte bytes later) ∙ is))
    ]

-- ---- what is there is read

pub line_met : (bytes after : List ℕ) → IsLineComment bytes after → slash (bytes ++ after) ≡ steps.Blank (length bytes)
unfolding slash
line_met bytes after is =
    let inner = is.0 in
    let run : prefix_len is_line_byte (inner ++ after) ≡ length inner = run_exact is_line_byte inner after is.2 (λ some. ap is_line_byte (is.3 some)) in
    let e : 2 + prefix_len is_line_byte (inner ++ after) ≡ suc (suc (length inner)) = omega arith in
    subst (λ (b : List ℕ). slash (b ++ after) ≡ steps.Blank (length b)) (sym is.1) (ap (λ (n : ℕ). steps.Blank n) e)

pub block_met : (bytes after : List ℕ) → IsBlockComment bytes → slash (bytes ++ after) ≡ steps.Blank (length bytes)
unfolding slash
block_met bytes after is =
    let inner = is.0 in
    let open_until = is.2 in
    let joined : inner ++ 42 ∷ 47 ∷ [] ++ after ≡ inner ++ 42 ∷ 47 ∷ after = append_assoc inner (42 ∷ 47 ∷ []) after in
    let e : 2 + (0 + (length inner + 2)) ≡ suc (suc (length (inner ++ 42 ∷ 47 ∷ []))) = omega (arith, length-append inner (42 ∷ 47 ∷ [])) in
    subst (λ (b : List ℕ). slash (b ++ after) ≡ steps.Blank (length b)) (sym is.1) (
    ap (λ (l : List ℕ). comment_of (comment_len 0 l)) joined ∙ ap comment_of (comment_exact 0 inner after open_until) ∙ ap (λ (n : ℕ). steps.Blank n) e
    )

pub open_met : (text : List ℕ) → IsOpenComment text → slash text ≡ steps.Fault kinds.CommentEnd 0
unfolding slash
open_met text is = subst (λ (t : List ℕ). slash t ≡ steps.Fault kinds.CommentEnd 0) (sym is.1) (ap comment_of (comment_open 0 is.0 is.2))

-- ---- what is read is there

line_reads : (text : List ℕ) → BlankAt (47 ∷ 47 ∷ text) (2 + prefix_len is_line_byte text)
line_reads text =
    let n = prefix_len is_line_byte text in
    record {
      bytes = 47 ∷ 47 ∷ take n text;
      after = drop n text;
      text_is = ap (λ (l : List ℕ). 47 ∷ 47 ∷ l) (sym (take-append-drop n text));
      is_blank = inr (inl (take n text, refl, run_passes is_line_byte text, λ some. eqb-true _ 10 (not-false _ (run_ends is_line_byte text some))));
      length_is = let fits = length-take-le n text (prefix_len-le-length is_line_byte text) in omega arith;
    }

block_reads : (text : List ℕ) (found : Option ℕ) → comment_len 0 text ≡ found → Stands (47 ∷ 42 ∷ text) (comment_of found)
block_reads text None is = ((text, refl, comment_never 0 text is), refl)
block_reads text (Some n) is =
    let closed = comment_closed 0 text n is in
    record {
      bytes = 47 ∷ 42 ∷ (closed.inner ++ 42 ∷ 47 ∷ []);
      after = closed.after;
      text_is = ap (λ (l : List ℕ). 47 ∷ 42 ∷ l) (closed.text_is ∙ sym (append_assoc closed.inner (42 ∷ 47 ∷ []) closed.after));
      is_blank = inr (inr (closed.inner, refl, closed.open_until));
      length_is = omega (arith, closed.end_is, length-append closed.inner (42 ∷ 47 ∷ []));
    }

slash_alone : (a : ℕ) (text : List ℕ) → a ≡ 47 → begins_comment (a ∷ text) ≡ false → TokenAt Symbol (a ∷ text) 1
slash_alone a text first no_comment = let one : is_symbol (a ∷ []) ≡ true = rw first refl in first_bytes Symbol (a ∷ text) 1 (omega arith) one no_comment

by_second : (a b : ℕ) (text : List ℕ) (line block : Bool) → a ≡ 47 → eqb b 47 ≡ line → eqb b 42 ≡ block
    → Stands (a ∷ b ∷ text) (cond line (steps.Blank (2 + prefix_len is_line_byte text)) (cond block (comment_of (comment_len 0 text)) (steps.Token Symbol 1)))
by_second a b text true block first is star = rw (first, eqb-true b 47 is) (line_reads text)
by_second a b text false true first is star =
    let step : Step = comment_of (comment_len 0 text) in
    subst (λ (x : ℕ). Stands (x ∷ b ∷ text) step) (sym first)
    (subst (λ (y : ℕ). Stands (47 ∷ y ∷ text) step) (sym (eqb-true b 42 star)) (block_reads text (comment_len 0 text) refl))
by_second a b text false false first is star = slash_alone a (b ∷ text) first (and_right (eqb a 47) _ (or_from (eqb b 47) (eqb b 42) is star))

pub slash_stands : (text : List ℕ) → slice_index text 0 ≡ 47 → Stands text (slash text)
unfolding slash
slash_stands [] is = absurd (omega arith)
slash_stands (a ∷ []) is = slash_alone a [] is (and_right (eqb a 47) false refl)
slash_stands (a ∷ b ∷ text) is = by_second a b text (eqb b 47) (eqb b 42) is refl refl
