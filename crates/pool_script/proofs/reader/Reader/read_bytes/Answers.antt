use Rattle.std.proofs.Common.{refl}
use Rattle.pool_script.proofs.ReaderLemmas.{bytes_read, bytes_sound}
use Rattle.pool_script.proofs.reader.Reader.read_bytes.Goals as goal

pub returns-clause-sound : goal.returns-clause-sound
returns-clause-sound c = bytes_sound c.args.self.now _ c.args.bytes.now c.requires.sound c.requires.one_line refl refl c.in_ok-extend_line.ensures.ok

pub returns-clause-ok : goal.returns-clause-ok
returns-clause-ok c = bytes_read c.args.self.now _ c.args.bytes.now c.requires.sound c.requires.one_line refl refl c.in_ok-extend_line.ensures.ok
