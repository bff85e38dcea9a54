-- The statuses of replies: RFC 9110, section 15, with 431 of RFC 6585 and 507 of RFC 4918.
use Rattle.std.specs.Prelude.{ℕ, List, codes}
use Rattle.desk_heads.specs.declared.head.HeadFault.TheVariants as head
use Rattle.desk_replies.specs.declared.status.Status.{Status}
use Rattle.desk_replies.specs.declared.status.Status.TheVariants as status
use Rattle.desk_replies.specs.declared.bodies.Refusal.{Refusal}
use Rattle.desk_replies.specs.declared.bodies.Refusal.TheVariants as refusal

abbrev pub digits : Status → List ℕ
digits status.Ok = codes "200"
digits status.Created = codes "201"
digits status.BadRequest = codes "400"
digits status.NotFound = codes "404"
digits status.MethodNotAllowed = codes "405"
digits status.Conflict = codes "409"
digits status.LengthRequired = codes "411"
digits status.ContentTooLarge = codes "413"
digits status.UnprocessableContent = codes "422"
digits status.HeadTooLarge = codes "431"
digits status.NotImplemented = codes "501"
digits status.KeeperFault = codes "503"
digits status.NoMemory = codes "507"

abbrev pub phrase : Status → List ℕ
phrase status.Ok = codes "OK"
phrase status.Created = codes "Created"
phrase status.BadRequest = codes "Bad Request"
phrase status.NotFound = codes "Not Found"
phrase status.MethodNotAllowed = codes "Method Not Allowed"
phrase status.Conflict = codes "Conflict"
phrase status.LengthRequired = codes "Length Required"
phrase status.ContentTooLarge = codes "Content Too Large"
phrase status.UnprocessableContent = codes "Unprocessable Content"
phrase status.HeadTooLarge = codes "Request Header Fields Too Large"
phrase status.NotImplemented = codes "Not Implemented"
phrase status.KeeperFault = codes "Service Unavailable"
phrase status.NoMemory = codes "Insufficient Storage"

-- the status of a refusal whose body is fixed
abbrev pub refusal_status : Refusal → Status
refusal_status (refusal.Head head.BadRequest) = status.BadRequest
refusal_status (refusal.Head head.LengthRequired) = status.LengthRequired
refusal_status (refusal.Head head.TooLarge) = status.ContentTooLarge
refusal_status (refusal.Head head.HeadTooLarge) = status.HeadTooLarge
refusal_status (refusal.Head head.TransferEncoding) = status.NotImplemented
refusal_status refusal.NoRoute = status.NotFound
refusal_status refusal.MethodNotAllowed = status.MethodNotAllowed
refusal_status refusal.UnknownDesign = status.NotFound
refusal_status refusal.UnknownDie = status.NotFound
