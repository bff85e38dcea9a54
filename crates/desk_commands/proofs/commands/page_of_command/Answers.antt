use Rattle.command_words.specs.CommandViews.{shown_order}
use Rattle.desk_commands.specs.Commands.{product_reading}
use Rattle.desk_commands.specs.Demo.{demo_output}
use Rattle.desk_commands.proofs.Pages.{page_is_due, output_is_due}
use Rattle.desk_commands.proofs.commands.page_of_command.Goals as goal

pub returns-in-Make-clause-told : goal.returns-in-Make-clause-told
returns-in-Make-clause-told g c = λ held e.
    rw c.in-Make.is (page_is_due (product_reading held c.in-Make.product (shown_order c.in-Make.order)) _ c.product_of-answer.result c.page_of_answer.result
    (c.product_of-answer.ensures.told held e) c.product_of-answer.ensures.fault c.page_of_answer.ensures.page)

pub returns-in-Demo-clause-told : goal.returns-in-Demo-clause-told
returns-in-Demo-clause-told g c = λ held e.
    rw c.in-Demo.is (output_is_due (demo_output c.in-Demo.demo.seed c.in-Demo.demo.blocks) _ c.demo_page.result c.demo_page.ensures.status c.demo_page.ensures.text)
