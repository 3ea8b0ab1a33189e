use Rattle.std.proofs.Common.{false, slice_index_or, refl, arith}
use Rattle.std.proofs.lemmas.Bool.{agree_below_at}
use Rattle.ad_lexer.specs.declared.bytes.TheConstants.{WORD_BYTES, PLAIN_BYTES}
use Rattle.ad_lexer.specs.declared.bytes.Class.TheVariants.{Plain}
use Rattle.ad_lexer.specs.Reading.{is_in}
use Rattle.ad_lexer.specs.Words.{is_word_byte}
use Rattle.ad_lexer.proofs.bytes.is_in.Goals as goal

-- the tables agree with the definitions
pub returns-in-Word : goal.returns-in-Word
returns-in-Word c = rw c.in-Word.is (agree_below_at (λ b. slice_index_or WORD_BYTES b false) is_word_byte 256 c.args.byte refl (omega (arith, c.ranges.byte)))

pub returns-in-Plain : goal.returns-in-Plain
returns-in-Plain c =
    rw c.in-Plain.is (agree_below_at (λ b. slice_index_or PLAIN_BYTES b false) (is_in Plain) 256 c.args.byte refl (omega (arith, c.ranges.byte)))
