-- Whether a lease, if one is out, is the one that a manager waits for.
use Rattle.std.specs.Prelude.{Bool, true, false, ◌&&◌, Some, None, Option, ◌==◌}
use Rattle.manager.specs.declared.lease.Lease.{Lease}
use Rattle.manager.specs.declared.manager.Manager.{Manager}
use Rattle.manager.specs.Rules.{Condition, shut, idle, busy}
use Rattle.manager.specs.Meaning.{condition_of}

-- whether no lease is out
abbrev pub is_idle : Condition → Bool
is_idle (shut n) = false
is_idle idle = true
is_idle busy = false

-- whether a lease is out
abbrev pub is_busy : Condition → Bool
is_busy (shut n) = false
is_busy idle = false
is_busy busy = true

-- with no lease the manager is idle; a lease is the one that it waits for
abbrev pub is_leased : {D : Type 0} → Manager D → Option Lease → Bool
is_leased m None = is_idle (condition_of m.standing)
is_leased m (Some l) = is_busy (condition_of m.standing) && (l.manager == m.number && l.count == m.books.account.gaps)
