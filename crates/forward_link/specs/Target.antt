-- Whom a request is sent on to.
use Rattle.front_base.specs.declared.address.Address.{Address}
use Rattle.forward_link.specs.declared.target.Target.{Target}
use Rattle.forward_link.specs.declared.target.Target.TheVariants.{Service, Delegate}

-- where it is dialed
abbrev pub address_of : Target → Address
address_of (Service to address) = address
address_of (Delegate address) = address
