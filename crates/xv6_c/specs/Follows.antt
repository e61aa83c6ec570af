-- What a borrow of what a handle holds gives back.
use base.Fml.{Fml}
use denote.Ref.{MutBor}
use denote.Follow.{follows}
use Rattle.xv6_c.specs.declared.sealed.Sealed.{Sealed}
use Rattle.xv6_c.specs.contracts.sealed.Sealed.{the_row}
use Rattle.session.specs.contracts.session.Session.{the_row as session_row}

-- s with another session
abbrev pub with_session : Sealed → session_row.Denot → Sealed
with_session s t = record { ptr = s.ptr; alloc = s.alloc; session = t }

-- once the borrow r ends, the handle that s borrows holds the last value written through r
abbrev pub sealed_follows : MutBor Sealed → MutBor session_row.Denot → Fml
sealed_follows s r = follows the_row session_row s.ghost_name r.ghost_name (with_session s.now)
