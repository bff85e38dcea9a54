-- What connections in memory hold.
use Rattle.std.specs.Prelude.{◌≡◌, ℕ, List, [], drop}
use Rattle.desk_outside.specs.Schedule.{fresh_calls}
use Rattle.desk_outside.specs.declared.calls.Calls.{Calls}
use Rattle.desk_outside.specs.declared.memory.unread.UnreadBytes.{UnreadBytes}
use Rattle.desk_outside.specs.declared.memory.link.MemLink.{MemLink}
use Rattle.desk_outside.specs.declared.memory.link.SureLink.{SureLink}

-- the bytes that are left to read
abbrev pub unread : UnreadBytes → List ℕ
unread u = drop u.at u.bytes

abbrev pub link_left : MemLink → List ℕ
link_left l = unread l.left

abbrev pub link_sent : MemLink → List ℕ
link_sent l = l.sent

abbrev pub link_calls : MemLink → Calls
link_calls l = l.calls

abbrev pub sure_left : SureLink → List ℕ
sure_left l = unread l.left

-- nothing was sent, and its count is 0
abbrev pub IsUnusedLink : MemLink → Type 0
IsUnusedLink l = (link_sent l ≡ []) × ((link_calls l).faults ≡ 0)

-- it has nothing left, nothing was sent, and no call of it is made or listed
abbrev pub IsEmptyLink : MemLink → Type 0
IsEmptyLink l = (link_left l ≡ []) × (link_sent l ≡ []) × (link_calls l ≡ fresh_calls [])
