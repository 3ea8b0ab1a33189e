-- What a step tells of a text.
use Rattle.std.proofs.Common.{◌≡◌, ℕ, ◌≤◌, false, eqb, List, [], ◌∷◌, ◌++◌, length, take, drop, sym, refl, length-take-le, take-append-drop}
use Rattle.ad_lexer.specs.declared.next.Step.{Step}
use Rattle.ad_lexer.specs.declared.next.Step.TheVariants as steps
use Rattle.ad_lexer.specs.declared.token.TokenKind.{TokenKind}
use Rattle.ad_lexer.specs.Blanks.{begins_comment, IsBlank}
use Rattle.ad_lexer.specs.Faults.{Wrong}
use Rattle.ad_lexer.specs.Spelling.{Spells}

-- a blank of some length stands at the front of a text
pub record BlankAt (text : List ℕ) (n : ℕ) : Type 0 where
  pub bytes : List ℕ
  pub after : List ℕ
  pub text_is : text ≡ bytes ++ after
  pub is_blank : IsBlank bytes after
  pub length_is : length bytes ≡ n

-- a token of some length is spelled at the front of a text, where no comment begins
pub record TokenAt (kind : TokenKind) (text : List ℕ) (n : ℕ) : Type 0 where
  pub bytes : List ℕ
  pub after : List ℕ
  pub text_is : text ≡ bytes ++ after
  pub spelled : Spells kind bytes
  pub length_is : length bytes ≡ n
  pub no_comment : begins_comment text ≡ false

abbrev pub Stands : List ℕ → Step → Type 0
Stands text steps.End = text ≡ []
Stands text (steps.Blank n) = BlankAt text n
Stands text (steps.Token kind n) = TokenAt kind text n
Stands text (steps.Fault kind place) = Wrong kind text place

pub no_slash : (byte : ℕ) (bytes : List ℕ) → eqb byte 47 ≡ false → begins_comment (byte ∷ bytes) ≡ false
no_slash byte bytes isnt = rw isnt refl

-- the first bytes, where they spell a token
pub first_bytes : (kind : TokenKind) (text : List ℕ) (n : ℕ) → n ≤ length text → Spells kind (take n text) → begins_comment text ≡ false → TokenAt kind text n
first_bytes kind text n fits spelled no_comment = record {
  bytes = take n text;
  after = drop n text;
  text_is = sym (take-append-drop n text);
  spelled = spelled;
  length_is = length-take-le n text fits;
  no_comment = no_comment;
}
