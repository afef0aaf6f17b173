mod RoleLists
