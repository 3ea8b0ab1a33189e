use Rattle.std.proofs.Common.{◌≡◌, ◌++◌, ◌∷◌, ℕ, List, [], length, take, refl, ◌∙◌, ap}
use Rattle.std.proofs.Math.Seq.{take-append_seam}
use Rattle.std.specs.Vec.{vec_len}
use Rattle.pool_script.proofs.ReaderLemmas.{line_end_read, line_end_sound}
use Rattle.pool_script.proofs.reader.Reader.end_line.Goals as goal

-- what is read is the line that had begun
is_begun : (c : goal.After-drop-self) → take c.len-len.result c.deref.result.now ≡ c.args.self.now.line.items
is_begun c =
    let line = c.args.self.now.line.items in
    let len : c.len-len.result ≡ length line = c.len-len.ensures ∙ ap vec_len c.replace-line.ensures.value ∙ c.args.self.now.line.ok.0 in
    let items : c.deref.result.now ≡ line ++ 10 ∷ [] = c.deref.ensures.value ∙ c.in_ok-push.ensures.items ∙ rw c.replace-line.ensures.value refl in
    ap (λ (n : ℕ). take n c.deref.result.now) len ∙ ap (λ (l : List ℕ). take (length line) l) items ∙ take-append_seam line (10 ∷ [])

pub returns-clause-sound : goal.returns-clause-sound
returns-clause-sound c =
    let h = c.read_line-read.ensures in
    line_end_sound c.read_line-read.result c.args.self.now _ c.args.self.now.line.items c.requires c.requires.one_line c.requires.short
    (rw (is_begun c) at h.ok_waiting) (rw (is_begun c) at h.ok_block) h.err_waiting h.err_block c.clear.ensures.items

pub returns-clause-ok : goal.returns-clause-ok
returns-clause-ok c =
    let h = c.read_line-read.ensures in
    line_end_read c.read_line-read.result c.args.self.now _ c.args.self.now.line.items (10 ∷ []) c.requires.one_line refl (rw (is_begun c) at h.ok_waiting)
    (rw (is_begun c) at h.ok_block) c.clear.ensures.items
