-- What contracts see of the mailboxes over memory and over a file.
use Rattle.std.specs.Prelude.{ℕ, List, None, Some}
use Rattle.notice_desk.specs.Mail.{Taking}

-- a mailbox in memory: the bytes taken, room for all, the calls that fail, and the counts
pub record Tray : Type 0 where
  pub taken : List ℕ
  pub room : ℕ
  pub failing : List ℕ
  pub calls : ℕ
  pub faults : ℕ

-- a mailbox that doesn't tell what it took: its counts
pub record Counts : Type 0 where
  pub calls : ℕ
  pub faults : ℕ

-- a mailbox in memory as a mailbox: it tells its bytes
abbrev pub told : Tray → Taking
told tray = record { taken = Some tray.taken; calls = tray.calls; faults = tray.faults }

-- a mailbox that doesn't tell, as a mailbox
abbrev pub untold : Counts → Taking
untold counts = record { taken = None; calls = counts.calls; faults = counts.faults }
