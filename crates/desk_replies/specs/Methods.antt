-- The methods of a route, of which a list goes into an Allow field (RFC 9110, section 10.2.1).
use Rattle.std.specs.Prelude.{ℕ, Bool, true, false, List, codes}
use Rattle.desk_heads.specs.declared.head.method.Method.{Method}
use Rattle.desk_heads.specs.declared.head.method.Method.TheVariants as method
use Rattle.desk_replies.specs.declared.methods.Methods.{Methods}
use Rattle.desk_replies.specs.declared.methods.Methods.TheVariants as methods

abbrev pub methods_text : Methods → List ℕ
methods_text methods.Get = codes "GET"
methods_text methods.GetPut = codes "GET, PUT"
methods_text methods.Post = codes "POST"

-- the method is one of them
abbrev pub allows : Methods → Method → Bool
allows methods.Get method.Get = true
allows methods.GetPut method.Get = true
allows methods.GetPut method.Put = true
allows methods.Post method.Post = true
allows _ _ = false
