-- What a string or a quoted name means, letter by letter.
use Rattle.std.proofs.Common.{◌≡◌, ℕ, zero, suc, ◌-◌, ◌<◌, Bool, true, false, cond, eqb, List, [], ◌∷◌, ◌++◌, length, map, drop, slice_index, is_some, refl}
use Rattle.std.proofs.Common.{sym, ◌∙◌, ap, arith, length-append, append_assoc, inl, inr, take, subst}
use Rattle.std.proofs.lemmas.Bool.{cases_Bool, and_parts, or_parts, not-true, true≢false, eq-eqb}
use Rattle.std.proofs.lemmas.Bool.Decides.{nat_tests}
use Rattle.std.proofs.lemmas.List.{drop_at, take_at, append-nil}
use Rattle.std.proofs.lemmas.List.Folds.{list_all-append}
use Rattle.std.specs.List.{list_all, prefix_len}
use Rattle.std.proofs.Math.Logic.{∥∥₁_elim}
use Rattle.std.proofs.Math.Bridge.{le_prop}
use Rattle.std.proofs.Math.Nat.{ℕ_set}
use Rattle.ad_lexer.specs.Content.{octal_value, octal_len, or_octal, meaning_at, letter_len, content_from, content}
use Rattle.ad_lexer.specs.Quoted.{Letter, plain, escape, octal, spelling, spellings, meaning, is_plain, escaped, IsLetter, AreLetters, IsQuoted, IsQuotation}
use Rattle.ad_lexer.specs.Reading.{front, is_in}
use Rattle.ad_lexer.specs.declared.bytes.Class.TheVariants as class
use Rattle.ad_lexer.specs.declared.quoted.Front.TheVariants as fronts
use Rattle.ad_lexer.proofs.LetterLemmas.{is_quote, spelling_some, octal_unescaped, digits_told, octal_digits, letter_met, plain_met}
use Rattle.ad_lexer.proofs.QuotedLemmas.{letter_first, front_close, plain_in}
use Rattle.ad_lexer.proofs.Runs.{run_step, run_stop, run_passes}
use mathlib.Core.List.{is_set}

-- skipping bytes is going on behind them
content-skip : (quote skip : ℕ) (text : List ℕ) → content_from quote skip text ≡ content_from quote 0 (drop skip text)
content-skip quote zero text = refl
content-skip quote (suc skip) [] = refl
content-skip quote (suc skip) (byte ∷ bytes) = content-skip quote skip bytes

len_by : (escape simple : Bool) (second third : ℕ) → 0 < cond escape (cond simple 2 (octal_len second third)) 1
len_by true true second third = omega arith
len_by true false second third = grind (arith, nat_tests)
len_by false simple second third = omega arith

pub letter_some : (bytes : List ℕ) → 0 < letter_len bytes
unfolding letter_len
letter_some bytes = len_by (eqb (slice_index bytes 0) 92) (is_some (escaped (slice_index bytes 1))) (slice_index bytes 2) (slice_index bytes 3)

drop_more : (n byte : ℕ) (bytes : List ℕ) → 0 < n → drop (n - 1) bytes ≡ drop n (byte ∷ bytes)
drop_more zero byte bytes some = absurd (omega arith)
drop_more (suc n) byte bytes some = let e : suc n - 1 ≡ n = omega arith in ap (λ (k : ℕ). drop k bytes) e

-- a letter's meaning stands before that of the rest
pub content_turn : (quote byte : ℕ) (bytes : List ℕ) → eqb byte quote ≡ false
    → content_from quote 0 (byte ∷ bytes) ≡ meaning_at (byte ∷ bytes) ∷ content_from quote 0 (drop (letter_len (byte ∷ bytes)) (byte ∷ bytes))
content_turn quote byte bytes isnt =
    let n : ℕ = letter_len (byte ∷ bytes) in
    let rest : content_from quote (n - 1) bytes ≡ content_from quote 0 (drop n (byte ∷ bytes)) =
    content-skip quote (n - 1) bytes ∙ ap (λ (l : List ℕ). content_from quote 0 l) (drop_more n byte bytes (letter_some (byte ∷ bytes))) in
    rw isnt (ap (λ (l : List ℕ). meaning_at (byte ∷ bytes) ∷ l) rest)

pub content_stop : (quote : ℕ) (bytes : List ℕ) → content_from quote 0 (quote ∷ bytes) ≡ []
content_stop quote bytes = rw (eq-eqb quote quote refl) refl

-- ---- a letter is read as what it means, and whole

plain_isnt : (quote byte : ℕ) → is_plain quote byte ≡ true → eqb byte 92 ≡ false
plain_isnt quote byte is = (or_parts (eqb byte quote) (eqb byte 92) (or_parts _ (eqb byte 10) (or_parts _ (eqb byte 0) (not-true _ is)).0).0).1

pub letter_meaning : (quote : ℕ) (letter : Letter) (after : List ℕ) → IsLetter quote letter after → meaning_at (spelling letter ++ after) ≡ meaning letter
unfolding meaning_at
letter_meaning quote (plain byte) after is = rw (plain_isnt quote byte is) refl
letter_meaning quote (escape byte meant) after is = ap (λ o. or_octal o (octal_value byte (slice_index after 0) (slice_index after 1))) is
letter_meaning quote (octal digits) after is =
    let told = digits_told digits after (octal_digits digits after is) in
    rw (octal_unescaped _ told.first) told.value

pub letter_length : (quote : ℕ) (letter : Letter) (after : List ℕ) → IsLetter quote letter after
    → letter_len (spelling letter ++ after) ≡ length (spelling letter)
unfolding letter_len
letter_length quote (plain byte) after is = rw (plain_isnt quote byte is) refl
letter_length quote (escape byte meant) after is = ap (λ o. cond (is_some o) 2 (octal_len (slice_index after 0) (slice_index after 1))) is
letter_length quote (octal digits) after is =
    let told = digits_told digits after (octal_digits digits after is) in
    rw (octal_unescaped _ told.first) told.len

-- ---- letters mean their content

begins_other : (quote : ℕ) (bytes : List ℕ) → 0 < length bytes → eqb (slice_index bytes 0) quote ≡ false
    → content_from quote 0 bytes ≡ meaning_at bytes ∷ content_from quote 0 (drop (letter_len bytes) bytes)
begins_other quote [] some isnt = absurd (omega arith)
begins_other quote (byte ∷ bytes) some isnt = content_turn quote byte bytes isnt

pub letters_content : (quote : ℕ) (letters : List Letter) (after : List ℕ) → is_quote quote ≡ true → AreLetters quote letters (quote ∷ after)
    → content_from quote 0 (spellings letters ++ quote ∷ after) ≡ map meaning letters
letters_content quote [] after is are = content_stop quote after
letters_content quote (letter ∷ letters) after is are =
    let first : List ℕ = spelling letter in
    let more : List ℕ = spellings letters ++ quote ∷ after in
    let joined : (first ++ spellings letters) ++ quote ∷ after ≡ first ++ more = append_assoc first (spellings letters) (quote ∷ after) in
    let some : 0 < length (first ++ more) = omega (arith, length-append first more, spelling_some letter) in
    let len : letter_len (first ++ more) ≡ length first = letter_length quote letter more are.0 in
    let rest : drop (letter_len (first ++ more)) (first ++ more) ≡ more = ap (λ (n : ℕ). drop n (first ++ more)) len ∙ drop_at first more (length first) refl in
    ap (λ (l : List ℕ). content_from quote 0 l) joined
    ∙ begins_other quote (first ++ more) some (letter_first quote letter more more is are.0)
    ∙ ap (λ (b : ℕ). b ∷ content_from quote 0 (drop (letter_len (first ++ more)) (first ++ more))) (letter_meaning quote letter more are.0)
    ∙ ap (λ (l : List ℕ). meaning letter ∷ content_from quote 0 l) rest
    ∙ ap (λ (l : List ℕ). meaning letter ∷ l) (letters_content quote letters after is are.1)

-- what quoted bytes mean is their content
pub quoted_content : (quote : ℕ) (bytes text : List ℕ) → is_quote quote ≡ true → IsQuoted quote bytes text → content bytes ≡ text
quoted_content quote bytes text is quoted = ap content quoted.1 ∙ letters_content quote quoted.0 [] is quoted.2 ∙ sym quoted.3

-- ---- the loop that reads the letters between quotes

-- the text so far and the letters that are left make up the content
pub record Unread (quote : ℕ) (bytes text rest : List ℕ) : Type 0 where
  pub quotes : is_quote quote ≡ true
  pub letters : List Letter
  pub spelled : rest ≡ spellings letters ++ quote ∷ []
  pub are : AreLetters quote letters (quote ∷ [])
  pub means : text ++ map meaning letters ≡ content bytes

-- a quotation stands between two equal quotes
pub quotation_quote : (bytes : List ℕ) → IsQuotation bytes → (quote : ℕ) × (text : List ℕ) × (is_quote quote ≡ true) × IsQuoted quote bytes text
quotation_quote bytes q = elim q [ inl string ↦ (34, string.0, refl, string.1) | inr named ↦ (39, named.0, refl, named.1) ]

pub unread_first : (bytes : List ℕ) → IsQuotation bytes → Unread (slice_index bytes 0) bytes [] (drop 1 bytes)
unread_first bytes quotation =
    let q = quotation_quote bytes quotation in
    subst (λ n. Unread n bytes [] (drop 1 bytes)) (sym (ap (λ (b : List ℕ). slice_index b 0) q.3.1)) (record {
      quotes = q.2;
      letters = q.3.0;
      spelled = ap (λ (b : List ℕ). drop 1 b) q.3.1;
      are = q.3.2;
      means = sym q.3.3 ∙ sym (quoted_content q.0 bytes q.1 q.2 q.3);
    })

-- a letter is read
pub unread_turn : (quote : ℕ) (bytes text rest : List ℕ) (letters : List Letter) (len meant : ℕ) → is_quote quote ≡ true
    → rest ≡ spellings letters ++ quote ∷ [] → AreLetters quote letters (quote ∷ [])
    → text ++ map meaning letters ≡ content bytes → fronts.Letter len meant ≡ front quote rest → Unread quote bytes (text ++ meant ∷ []) (drop len rest)
unread_turn quote bytes text rest [] len meant is spelled are means reads = absurd (cc (reads ∙ ap (front quote) spelled ∙ front_close quote []))
unread_turn quote bytes text rest (letter ∷ letters) len meant is spelled are means reads =
    let more : List ℕ = spellings letters ++ quote ∷ [] in
    let joined : rest ≡ spelling letter ++ more = spelled ∙ append_assoc (spelling letter) (spellings letters) (quote ∷ []) in
    let same : fronts.Letter len meant ≡ fronts.Letter (length (spelling letter)) (meaning letter) =
    reads ∙ ap (front quote) joined ∙ letter_met quote letter more is are.0 in
    let long : length (spelling letter) ≡ len = cc in
    let meaning_is : meant ≡ meaning letter = cc in
    record {
      quotes = is;
      letters = letters;
      spelled = ap (λ (r : List ℕ). drop len r) joined ∙ drop_at (spelling letter) more len long;
      are = are.1;
      means = ap (λ (b : ℕ). (text ++ b ∷ []) ++ map meaning letters) meaning_is ∙ append_assoc text (meaning letter ∷ []) (map meaning letters) ∙ means;
    }

-- bytes that stand for themselves are read at once
pub unread_run : (quote : ℕ) (bytes text rest : List ℕ) → Unread quote bytes text rest
    → Unread quote bytes (text ++ take (prefix_len (is_in class.Plain) rest) rest) (drop (prefix_len (is_in class.Plain) rest) rest)
unread_run quote bytes text [] u = subst (λ t. Unread quote bytes t []) (sym (append-nil text)) u
unread_run quote bytes text (byte ∷ more) u =
    let p = is_in class.Plain in
    elim (cases_Bool (p byte)) [
      | inl stands ↦
          let read =
          unread_turn quote bytes text (byte ∷ more) u.letters 1 byte u.quotes u.spelled u.are u.means
          (sym (plain_met quote byte more (plain_in quote byte u.quotes stands))) in
          rw (run_step p byte more stands) (subst (λ t. Unread quote bytes t (drop (prefix_len p more) more))
          (append_assoc text (byte ∷ []) (take (prefix_len p more) more)) (unread_run quote bytes (text ++ byte ∷ []) more read))
      | inr other ↦ rw (run_stop p byte more other) (subst (λ t. Unread quote bytes t (byte ∷ more)) (sym (append-nil text)) u)
    ]

-- where no letter is left the text is the content
pub unread_end : (quote : ℕ) (bytes text rest : List ℕ) (letters : List Letter) → is_quote quote ≡ true → rest ≡ spellings letters ++ quote ∷ []
    → AreLetters quote letters (quote ∷ [])
    → text ++ map meaning letters ≡ content bytes → ((len meant : ℕ) → front quote rest ≡ fronts.Letter len meant → ⊥) → text ≡ content bytes
unread_end quote bytes text rest [] is spelled are means none = sym (append-nil text) ∙ means
unread_end quote bytes text rest (letter ∷ letters) is spelled are means none =
    let more : List ℕ = spellings letters ++ quote ∷ [] in
    let joined : rest ≡ spelling letter ++ more = spelled ∙ append_assoc (spelling letter) (spellings letters) (quote ∷ []) in
    absurd (none _ _ (ap (front quote) joined ∙ letter_met quote letter more is are.0))

-- letters that stand for themselves are what they mean
plain_letter : (letter : Letter) → list_all (is_in class.Plain) (spelling letter) ≡ true → spelling letter ≡ meaning letter ∷ []
plain_letter (plain byte) each = refl
plain_letter (escape byte meant) each = absurd (true≢false (sym each))
plain_letter (octal digits) each = absurd (true≢false (sym each))

plain_letters : (letters : List Letter) → list_all (is_in class.Plain) (spellings letters) ≡ true → spellings letters ≡ map meaning letters
plain_letters [] each = refl
plain_letters (letter ∷ letters) each =
    let both = and_parts _ _ (sym (list_all-append (is_in class.Plain) (spelling letter) (spellings letters)) ∙ each) in
    ap (λ (l : List ℕ). l ++ spellings letters) (plain_letter letter both.0) ∙ ap (λ (l : List ℕ). meaning letter ∷ l) (plain_letters letters both.1)

-- where the first run of letters ends at the closing quote, that is all
pub one_run : (bytes more text : List ℕ) → IsQuotation bytes → text ≡ drop 1 (bytes ++ more) → prefix_len (is_in class.Plain) text ≡ length bytes - 2
    → take (length bytes - 2) text ≡ content bytes
one_run bytes more text quotation behind run =
    let q = quotation_quote bytes quotation in
    let letters : List ℕ = spellings q.3.0 in
    let stands : text ≡ letters ++ q.0 ∷ more = behind ∙ ap (λ (l : List ℕ). drop 1 (l ++ more)) q.3.1 ∙ append_assoc letters (q.0 ∷ []) more in
    let len : length letters ≡ length bytes - 2 = omega (arith, ap (λ (l : List ℕ). length l) q.3.1, length-append letters (q.0 ∷ [])) in
    let front : take (length bytes - 2) text ≡ letters =
    ap (λ (l : List ℕ). take (length bytes - 2) l) stands ∙ take_at letters (q.0 ∷ more) (length bytes - 2) len in
    let each = subst (λ (l : List ℕ). list_all (is_in class.Plain) l ≡ true) (ap (λ (n : ℕ). take n text) run ∙ front) (run_passes (is_in class.Plain) text) in
    front ∙ plain_letters q.3.0 each ∙ sym q.3.3 ∙ sym (quoted_content q.0 bytes q.1 q.2 q.3)

-- a quotation has two quotes
pub quotation_long : (bytes : List ℕ) → IsQuotation bytes → 1 < length bytes
quotation_long bytes quotation =
    let q = quotation_quote bytes quotation in
    omega (arith, ap (λ (l : List ℕ). length l) q.3.1, length-append (spellings q.3.0) (q.0 ∷ []))

-- ---- what follows from a fact of which only that it holds is known

pub equal_when : {P : Type 0} (a b : List ℕ) → ∥ P ∥₁ → (P → a ≡ b) → a ≡ b
equal_when a b had f = ∥∥₁_elim had (is_set ℕ_set a b) f

pub less_when : {P : Type 0} (a b : ℕ) → ∥ P ∥₁ → (P → a < b) → a < b
less_when a b had f = ∥∥₁_elim had le_prop f
