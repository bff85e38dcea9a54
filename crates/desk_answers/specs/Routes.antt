-- The table of routes, as matchit reads their patterns.
use Rattle.std.specs.Prelude.{ℕ, List, [], codes, Result, Ok, Err}
use Rattle.matchit.specs.Rows.{RowsOf}
use Rattle.matchit.specs.Order.{placed}
use Rattle.matchit.specs.Route.{Scan, parse_route}
use Rattle.matchit.specs.Router.{RouteOf, route_from}
use Rattle.matchit.specs.declared.error.InsertError.{InsertError}
use Rattle.desk_answers.specs.declared.routes.Route.{Route}
use Rattle.desk_answers.specs.declared.routes.Route.TheVariants as route

-- the rows with one more, of a pattern that matchit reads
abbrev pub with_row : Result Scan InsertError → Route → RowsOf (RouteOf Route) → RowsOf (RouteOf Route)
with_row (Ok s) value rows = placed (s.pattern, route_from s value) rows
with_row (Err e) value rows = rows

-- the rows with those of the pattern of a route
abbrev pub with_route : List ℕ → Route → RowsOf (RouteOf Route) → RowsOf (RouteOf Route)
with_route pattern value rows = with_row (parse_route pattern) value rows

unfoldable pub routes : RowsOf (RouteOf Route)
routes =
    with_route (codes "/designs/{design}/dies/{die}/signoffs/{number}") route.Sign
    (with_route (codes "/designs/{design}/dies/{die}/signoffs") route.Signs
    (with_route (codes "/designs/{design}/dies/{die}/reports/{revision}/slat/{pattern}") route.SlatPattern
    (with_route (codes "/designs/{design}/dies/{die}/reports/{revision}/slat") route.Slat
    (with_route (codes "/designs/{design}/dies/{die}/reports/{revision}/pages/{line}") route.Page
    (with_route (codes "/designs/{design}/dies/{die}/reports/{revision}") route.Report
    (with_route (codes "/designs/{design}/dies/{die}/report") route.LastReport
    (with_route (codes "/designs/{design}/dies/{die}/logs") route.Logs
    (with_route (codes "/designs/{design}/faults/{fault}/fails") route.Fails
    (with_route (codes "/designs/{design}") route.Design
    [])))))))))
