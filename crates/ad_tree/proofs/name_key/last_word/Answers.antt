use Rattle.std.proofs.Common.{◌+◌, ◌*◌, ◌^◌, ◌∙◌, ap, arith, map, take}
use Rattle.std.specs.Int.{w32, from_be_bytes}
use Rattle.pool_text.specs.Digests.{letter}
use Rattle.ad_tree.proofs.WordLemmas.{halves, none, one, two, three}
use Rattle.ad_tree.proofs.name_key.last_word.Goals as goal

pub returns-in-empty : goal.returns-in-empty
returns-in-empty c = none c.args.letters.now c.in-empty.len_below

pub returns-in-len1 : goal.returns-in-len1
returns-in-len1 c = c.from.ensures ∙ one c.args.letters.now c.in-len1.len_at_least c.in-len1.len_below

pub returns-in-len2 : goal.returns-in-len2
returns-in-len2 c = c.from-in-len2.ensures ∙ c.from_be_bytes.ensures ∙ two c.args.letters.now c.in-len2.len_at_least c.in-len2.len_below

pub returns-in-len3 : goal.returns-in-len3
returns-in-len3 c =
    c.from-in-len3.ensures ∙ c.from_be_bytes-in-len3.ensures ∙ three c.args.letters.now c.in-len3.len_at_least c.in-len3.len_below

pub returns-in_default : goal.returns-in_default
returns-in_default c =
    ap (λ w. w * 2 ^ 32 + c.from-in_default-2.result) (c.from-in_default.ensures ∙ c.half_word.ensures)
    ∙ ap (λ w. from_be_bytes w32 (map letter (take 4 c.args.letters.now)) * 2 ^ 32 + w) (c.from-in_default-2.ensures ∙ c.half_word-in_default.ensures)
    ∙ halves c.args.letters.now (omega (arith, c.in_default.len_at_least)) c.requires
